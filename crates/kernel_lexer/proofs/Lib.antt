-- The lemmas of this crate.
pub mod Words
pub mod Signs
pub mod Cuts
pub mod Found
pub mod OneFault
pub mod Fronts
pub mod Always
pub mod Spans
