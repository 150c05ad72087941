pub mod Paths
pub mod Sets
pub mod Below
pub mod Ends
pub mod DemandLaws
pub mod SpreadLaws
pub mod Taken
pub mod OperandLaws
