-- The words that this crate's contracts are written in.
pub mod Deliver
pub mod Takes
