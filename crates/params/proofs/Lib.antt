pub mod SetLaws
pub mod RoomLaws
