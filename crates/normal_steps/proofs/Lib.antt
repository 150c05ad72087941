-- The lemmas behind the laws and the calls.
pub mod Simulation
pub mod Sound
pub mod PlanMoves
pub mod Listed
pub mod Workable
pub mod Finishing
pub mod AllLegal
pub mod Playing
pub mod StepTestLaws
