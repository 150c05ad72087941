-- The lemmas behind the laws and the calls.
pub mod Answering
pub mod Playing
pub mod Judged
pub mod Moves
pub mod Reader
pub mod Decided
pub mod Verdicts
pub mod OnePlay
