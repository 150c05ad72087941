-- The definitions of this crate.
pub mod Spelling
pub mod Lexing
pub mod Cutting
pub mod Texts
pub mod Laws
