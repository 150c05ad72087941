-- The definitions of this crate: the evaluation over plain numbers, and how a run ends.
pub mod Inputs
pub mod Numbers
pub mod Phases
pub mod RunEnds
pub mod States
