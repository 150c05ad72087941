-- The definitions of parts of a game, and of bounds that are summed over them.
pub mod Cuts
pub mod Parts
pub mod Induced
pub mod Laws
pub mod Bounds
