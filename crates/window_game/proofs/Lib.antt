-- The lemmas for the laws.
pub mod Showing
pub mod InTime
pub mod Sums
