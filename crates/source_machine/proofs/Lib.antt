-- The lemmas of this crate: the evaluation over plain numbers gives the meaning.
pub mod Pictured
pub mod Runs
