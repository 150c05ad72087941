-- The definitions of judging a play, of making a plan of it, and of the text of a play with its one reading.
pub mod Judging
pub mod Tidying
pub mod Followed
pub mod PlayText
pub mod PlayTexts
pub mod Reading
pub mod Laws
