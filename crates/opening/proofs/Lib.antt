pub mod OpenLaws
pub mod Kept
