-- The lemmas of this crate.
pub mod Numbers
pub mod Machines
pub mod Trees
pub mod Examples
