-- The lemmas for the laws and the calls.
pub mod Tests
pub mod Listed
pub mod Calls
