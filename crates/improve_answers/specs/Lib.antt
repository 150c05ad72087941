-- The words that this crate's contracts are written in.
pub mod Confirms
pub mod Improved
pub mod ImproveUsage
pub mod ImproveWords
