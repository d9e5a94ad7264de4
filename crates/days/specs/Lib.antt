pub mod Days
pub mod Answers
pub mod Texts
