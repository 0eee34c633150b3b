pub mod Calls
pub mod Cell
