-- The lemmas of this crate.
pub mod AddedLines
pub mod Remarks
