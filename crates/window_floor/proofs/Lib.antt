-- The lemmas for the laws and the calls.
pub mod WorkerLaws
pub mod GroupLaws
pub mod ConeLaws
pub mod ConeLoops
pub mod FloorSums
pub mod WindowLaws
