pub mod WorkingDays
pub mod Answers
