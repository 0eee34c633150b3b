pub mod Node
pub mod Loaded
pub mod Stored
pub mod Effects
pub mod Fusing
