pub mod Costs
pub mod Listed
pub mod Rows
pub mod Sorted
