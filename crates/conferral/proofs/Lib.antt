pub mod RoomLaws
pub mod PostingLaws
pub mod BookedLaws
