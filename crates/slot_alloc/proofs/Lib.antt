-- The lemmas behind the laws and the calls.
pub mod Calls
pub mod Emitting
pub mod Neatness
pub mod Placing
pub mod Right
