-- What the proofs of this crate and of those above it share.
pub mod Delivering
pub mod Ends
pub mod InputRests
pub mod TableFiles
