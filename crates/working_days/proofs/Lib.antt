pub mod Every
pub mod WorkingDayLaws
