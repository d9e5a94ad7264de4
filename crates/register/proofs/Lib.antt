pub mod FreshLaws
pub mod ReportLaws
pub mod FreshKept
