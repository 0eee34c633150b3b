pub mod Numbered
pub mod Bench
