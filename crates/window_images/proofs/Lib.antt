-- The lemmas for the laws and the calls.
pub mod Inverses
pub mod SetImages
pub mod Tested
pub mod Rounds
