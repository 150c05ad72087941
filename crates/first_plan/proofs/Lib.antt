-- The lemmas behind the plan, its laws and its calls.
pub mod Passing
pub mod NextUses
pub mod Chosen
pub mod Turns
pub mod Costs
pub mod Calls
