-- The lemmas of this crate: the laws of the forms, and what follows for whole texts.
pub mod Parts
pub mod Steps
pub mod Options
pub mod Lists
pub mod Loops
pub mod Texts
pub mod NestedLaws
