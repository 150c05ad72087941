-- The words that this crate's contracts are written in.
pub mod Numbers
pub mod Values
