-- The lemmas of this crate: that the readers are exact, rule by rule, and the turns of their loops.
pub mod KindTests
pub mod Arguments
pub mod Chains
pub mod IndexSteps
pub mod ExprSteps
pub mod StatementSteps
pub mod KernelSteps
pub mod Turns
