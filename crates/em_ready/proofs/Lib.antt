pub mod Queues
pub mod RoomLaws
