pub mod WritingLaws
pub mod DecimalLaws
