pub mod Failure
pub mod Messages
pub mod Names
pub mod Words
