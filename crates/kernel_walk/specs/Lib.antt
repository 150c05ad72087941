-- What the contracts of this crate, and of those above it, speak of.
pub mod CellsAt
pub mod ElementLoops
pub mod LightStatements
pub mod Outcomes
pub mod PlacesLookedAt
pub mod SetElements
