-- The lemmas of this crate: the graph is that of the meaning.
pub mod GraphLowered
pub mod KernelGraphLaws
pub mod KernelLogs
pub mod KernelRuns
pub mod Pictured
pub mod ElementsLeft
pub mod SmallConstants
pub mod FaultCodes
pub mod EachLoops
