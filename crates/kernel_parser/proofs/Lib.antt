-- The lemmas of this crate: of names, and of whole texts.
pub mod Lists
pub mod Faults
pub mod Statements
pub mod GoodIndices
pub mod GoodExprs
pub mod GoodKernels
pub mod Wholes
pub mod Spelled
pub mod Levels
pub mod ReadIndices
pub mod ReadExprs
pub mod ReadKernels
pub mod Expressions
pub mod FaultPlaces
pub mod NamesInOrder
pub mod OneText
pub mod NameEnds
