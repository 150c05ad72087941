-- The words that this crate's contracts are written in.
pub mod ReportText
pub mod OutputsText
pub mod GraphText
pub mod TrialText
pub mod CacheText
pub mod PartsText
