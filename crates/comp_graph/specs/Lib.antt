-- The definitions of this crate: sets of vertices, members of lists, operations, graphs, games.
pub mod Vertices
pub mod Lists
pub mod Sets
pub mod Words
pub mod WordLaws
pub mod Operations
pub mod Dags
pub mod Graphs
pub mod GraphView
pub mod Kept
pub mod Games
pub mod Laws
