-- Positions of windows, floors, automorphisms, tables, the whole graph as a window, and the bound that a list of windows proves.
pub mod Sound
pub mod Floors
pub mod Entry
pub mod Cones
pub mod Images
pub mod Tables
pub mod Whole
pub mod Proofs
