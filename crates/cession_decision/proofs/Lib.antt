pub mod CessionLaws
pub mod SpanTests
