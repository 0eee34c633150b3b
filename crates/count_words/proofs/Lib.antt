pub mod CountLaws
pub mod Rows
