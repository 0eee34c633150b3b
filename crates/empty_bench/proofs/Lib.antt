pub mod Ranges
pub mod Entries
pub mod Weights
pub mod Emptying
