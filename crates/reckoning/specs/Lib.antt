pub mod Calls
pub mod Reckoning
pub mod Reasons
pub mod Demand3
