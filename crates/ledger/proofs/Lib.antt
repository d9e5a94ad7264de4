pub mod LedgerLaws
pub mod LineLaws
