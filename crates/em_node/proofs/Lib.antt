pub mod Seams
pub mod Orders
pub mod Nodes
pub mod Checks
pub mod NodeRows
