-- The lemmas that this crate's answers share.
pub mod KnownBytes
