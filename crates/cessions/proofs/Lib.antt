pub mod AnswerLaws
pub mod CededLaws
pub mod RefusalLaws
pub mod MovedLaws
