pub mod Beside
pub mod Dealt
pub mod Rooms
pub mod Sorted
