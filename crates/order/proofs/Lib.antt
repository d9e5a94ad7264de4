pub mod OrderLaws
pub mod OrderFacts
pub mod OrderKept
pub mod LineSpans
pub mod LoopLaws
