pub mod Moves
pub mod Plan
pub mod Rows
