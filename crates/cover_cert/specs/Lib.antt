-- Covered tables: positions that cover others, the tables, their bytes, the search that makes them, and the laws.
pub mod Covers
pub mod CoverTable
pub mod CoverSupport
pub mod Refusals
pub mod CoverBytes
pub mod CoverReadings
pub mod CoverSearch
pub mod CoverStanding
pub mod CoverMaking
pub mod CoverTurns
pub mod CoverOffers
pub mod CoverNumbers
pub mod CoverLaws
pub mod CoverSearchLaws
pub mod CoverAnswer
pub mod CoverFounds
