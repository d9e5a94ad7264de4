pub mod Ranges
pub mod Amounts
