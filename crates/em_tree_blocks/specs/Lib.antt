pub mod Node
pub mod Reading
pub mod Paths
pub mod Effects
pub mod Fusing
