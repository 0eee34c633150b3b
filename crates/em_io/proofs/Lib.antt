pub mod Numbers
mod Rows
pub mod Sent
pub mod Takes
mod Texts
