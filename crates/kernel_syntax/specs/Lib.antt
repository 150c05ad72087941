-- The definitions of this crate: the grammar and its readers, and the laws of the grammar.
pub mod Tokens
pub mod Trees
pub mod Grammar
pub mod Parsing
pub mod Reading
pub mod Syntax
pub mod Laws
