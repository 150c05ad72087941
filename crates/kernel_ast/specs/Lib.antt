-- The definitions of this crate: kernels, their trees, and what they mean.
pub mod KernelParts
pub mod KernelView
pub mod Names
pub mod Weights
pub mod WellFormed
pub mod Steps
pub mod RunRules
pub mod Places
pub mod Walk
pub mod Machine
pub mod Meaning
pub mod Labels
pub mod KernelGraph
