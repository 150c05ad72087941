-- The lemmas of this crate.
pub mod Pieces
pub mod Decimals
pub mod TrialPieces
pub mod ReadTrials
pub mod WrittenTrials
pub mod Pool
pub mod NamedTrials
pub mod RunTrials
pub mod AcceptedTrials
