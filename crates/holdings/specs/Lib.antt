pub mod Holdings
pub mod Steps
