pub mod Ranges
pub mod DateLaws
pub mod AnswerLaws
