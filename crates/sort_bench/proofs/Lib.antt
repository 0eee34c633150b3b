pub mod Lots
pub mod Rows
