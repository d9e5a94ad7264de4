pub mod Fresh
pub mod Reports
pub mod Sound
