pub mod Effects
pub mod Peek
pub mod State
pub mod Weaves
pub mod Woven
