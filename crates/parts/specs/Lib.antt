pub mod Limits
pub mod Tests
pub mod Registers
pub mod Charges
pub mod Answers
pub mod Points
pub mod Accounts
