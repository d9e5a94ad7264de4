pub mod PlaceLaws
pub mod Kept
