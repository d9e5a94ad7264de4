pub mod Smallest
pub mod Calls
pub mod Reckoning
pub mod Expected
pub mod Demand3
