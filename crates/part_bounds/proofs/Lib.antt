-- The lemmas behind the laws and the calls.
pub mod Places
pub mod Cutting
pub mod Costs
pub mod Kept
pub mod CutGraphs
pub mod Games
pub mod Calls
pub mod WholeCosts
pub mod PartSearches
