pub mod Batches
pub mod Shares
pub mod ShareLines
pub mod Steps
