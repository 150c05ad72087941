-- The lemmas of this crate: of loops over numbers, elements, places and statements.
pub mod ElementLoops
pub mod LightBodies
pub mod LocatedPlaces
pub mod Outcomes
pub mod SameCells
pub mod NumbersTaken
