pub mod CessionQuestions
pub mod Decisions
pub mod Steps
