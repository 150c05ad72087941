-- The definitions of code, of its machine and of its runs, and of playing moves.
pub mod Cells
pub mod Codes
pub mod CodeView
pub mod Machines
pub mod Values
pub mod CodePlays
pub mod Exec
