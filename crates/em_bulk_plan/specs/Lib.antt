pub mod Moves
pub mod Plan
