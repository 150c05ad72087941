-- The floor of a position of a window: its workers, its groups and its cones.
pub mod Workers
pub mod Groups
pub mod GreedyCones
pub mod Counting
pub mod WindowTests
