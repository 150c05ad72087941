-- The definitions of this crate: the graph from the executed assignments, and the laws of graphs.
pub mod Declarations
pub mod ElementsLeft
pub mod Laws
pub mod LabelledElements
pub mod Lowering
pub mod Lowered
pub mod Views
