-- What it takes to open a ledger for steps.
pub mod Openings
