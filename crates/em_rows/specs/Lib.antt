pub mod Ahead
pub mod Answered
pub mod Lists
pub mod Moves
pub mod Rows
pub mod Taken
pub mod Writing
