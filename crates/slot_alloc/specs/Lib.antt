-- The code of a list of moves, the pebblings that it can be given for, and the code of a plan.
pub mod Emitted
pub mod Emitters
pub mod Neat
pub mod PlanCode
