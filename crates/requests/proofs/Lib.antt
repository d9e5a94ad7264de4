pub mod AnswerLaws
pub mod ConferredLaws
pub mod RefusalLaws
pub mod Cases
