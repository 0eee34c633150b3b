pub mod Node
pub mod Records
