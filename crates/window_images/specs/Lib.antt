-- Permutations of the vertices as lists, the images of sets and positions, the test of an automorphism, and the choice of an image.
pub mod Permutations
pub mod Making
pub mod Automorphisms
pub mod LeastImages
