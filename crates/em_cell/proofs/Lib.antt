pub mod Laws
pub mod Waits
