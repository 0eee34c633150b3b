mod Rows
mod Unsent
