-- The definitions of the search, its laws, what holds of it at each turn, and how packed places, queues and a best cost stand for it.
pub mod Steps
pub mod Search
pub mod SearchLaws
pub mod Buckets
pub mod Standing
pub mod Packing
pub mod Shortcut
pub mod Turning
