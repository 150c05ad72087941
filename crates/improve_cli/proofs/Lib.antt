-- What the proofs of this crate share.
pub mod AnswerLaws
pub mod FaultCauses
pub mod InputAnswers
pub mod SomeAnswers
