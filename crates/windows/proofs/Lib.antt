pub mod HoldingLaws
pub mod Rows
