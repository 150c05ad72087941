-- The words that this crate's contracts are written in.
pub mod Commands
pub mod Words
