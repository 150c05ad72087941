-- The lemmas of this crate: what the executed assignments do.
pub mod Operators
pub mod Walks
pub mod Played
pub mod Unrolls
pub mod Ended
