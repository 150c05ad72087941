-- Tests of the steps of a window, the legal steps of a position as sets and in order, and windows as sets.
pub mod StepTests
pub mod LegalSteps
pub mod Sets
