-- The lemmas behind the laws and the calls.
pub mod Possible
pub mod FirstBound
pub mod Calls
pub mod Order
pub mod Replays
pub mod Transfers
