pub mod RecordLaws
pub mod RunLaws
pub mod Listed
pub mod OutcomeLaws
