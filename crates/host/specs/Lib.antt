pub mod Requests
pub mod Cessions
