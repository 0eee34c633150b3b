pub mod Unloading
pub mod Emptying
