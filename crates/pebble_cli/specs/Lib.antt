-- The words that this crate's contracts are written in.
pub mod AnswerLaws
pub mod Answers
pub mod CacheLaws
pub mod CheckLaws
pub mod CoverLaws
pub mod ExecLaws
pub mod Faults
pub mod GraphLaws
pub mod InputAnswers
pub mod PartLaws
pub mod PlanLaws
pub mod PlayLaws
pub mod RunLaws
pub mod TrialLaws
