-- The definitions of this crate: phrases, their readers, and the first fault of a text.
pub mod Phrases
pub mod Readers
pub mod Faults
pub mod Nested
pub mod Laws
