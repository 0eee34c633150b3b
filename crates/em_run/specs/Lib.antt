pub mod Due
pub mod Made
pub mod Origin
pub mod Runs
pub mod Tasks
