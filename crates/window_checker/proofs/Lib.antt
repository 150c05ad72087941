-- The lemmas for the laws and the calls.
pub mod OfProofs
pub mod RowTests
pub mod Parts
