pub mod ConferBatch
pub mod Steps
