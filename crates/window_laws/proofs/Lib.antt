-- The lemmas for the laws.
pub mod SoundIn
pub mod Rows
pub mod WholeWindow
pub mod OfGame
pub mod Needs
pub mod Entering
pub mod Walks
pub mod Renamed
pub mod Summing
