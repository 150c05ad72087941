-- Windows of a game, their plays, what a window shows of a play of the game, and bounds that add up.
pub mod Windows
pub mod Plays
pub mod Views
pub mod Bounds
