-- What the proofs of this crate and of those above it share.
pub mod ConfirmedFiles
pub mod Effortless
pub mod Improvements
pub mod SomeImprovements
pub mod Tables
pub mod WordLimits
