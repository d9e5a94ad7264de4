pub mod RangeLaws
pub mod CalendarLaws
pub mod AmountLaws
