-- The definitions of the first plan and of what its calls keep.
pub mod Passing
pub mod NextUses
pub mod Victims
pub mod FirstPlan
pub mod Ready
pub mod Laws
