pub mod TestLaws
pub mod AnswerLaws
pub mod QuestionLaws
pub mod ChargeLaws
