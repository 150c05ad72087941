-- The words that this crate's contracts are written in.
pub mod Counts
pub mod Known
pub mod Memory
pub mod Whole
