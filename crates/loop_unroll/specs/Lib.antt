-- The definitions of this crate: the executed assignments, and what to go through them does.
pub mod Ends
pub mod Flats
pub mod Laws
pub mod Plays
pub mod ShapeEnds
