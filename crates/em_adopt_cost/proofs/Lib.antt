pub mod Rows
pub mod Services
