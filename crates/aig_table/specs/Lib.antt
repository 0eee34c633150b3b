pub mod Columns
pub mod Follows
pub mod Keeps
pub mod Loads
pub mod Steps
pub mod Sweeps
pub mod Tables
