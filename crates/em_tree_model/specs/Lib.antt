pub mod Tree
pub mod Ranges
pub mod Places
pub mod Pouring
pub mod Owed
pub mod Meaning
pub mod Taking
