pub mod AnswerLaws
pub mod BookedLaws
pub mod RefusalLaws
pub mod LoopLaws
