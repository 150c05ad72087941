-- The butterfly is a graph.
pub mod Nodes
