-- The definitions of this crate: the faults and the meaning of names, and what a text stands for.
pub mod NameFaults
pub mod NameOrder
pub mod Names
pub mod Scopes
pub mod Resolved
pub mod RawWeights
pub mod RawFits
pub mod KernelTexts
pub mod TextLaws
pub mod Accepted
