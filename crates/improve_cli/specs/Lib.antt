-- The words that this crate's contracts are written in.
pub mod AnswerLaws
pub mod Answers
pub mod Faults
