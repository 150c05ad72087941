-- The definitions of normal steps, of plays, and of the laws.
pub mod Steps
pub mod Subsequences
pub mod Simulation
pub mod Sound
pub mod PlanMoves
pub mod LegalSteps
pub mod Plans
pub mod StepTests
