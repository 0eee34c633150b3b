pub mod Laws
pub mod Padding
pub mod Rows
pub mod Steps
pub mod Untold
pub mod Words
