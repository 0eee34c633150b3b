pub mod Listing
pub mod Raising
pub mod Subtrees
pub mod Nodes
pub mod Levels
