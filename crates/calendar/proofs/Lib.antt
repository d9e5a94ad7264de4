pub mod ThermalYearLaws
pub mod DeadlineLaws
pub mod SpanLaws
pub mod AnswerLaws
pub mod Cases
