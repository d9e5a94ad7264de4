pub mod Readings
pub mod Sessions
