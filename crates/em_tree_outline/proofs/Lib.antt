pub mod FirstLeaves
pub mod Outlines
pub mod Pouring
