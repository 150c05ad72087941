-- The definitions of this crate: chunks as lists of numbers, and who owns their memory.
pub mod Inside
pub mod Numbers
pub mod Ownership
