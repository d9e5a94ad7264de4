pub mod RequestQuestions
pub mod Decisions
pub mod Steps
