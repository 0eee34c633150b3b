pub mod Node
pub mod FirstFull
pub mod Effects
pub mod Dealt
pub mod Loaded
pub mod Returned
pub mod Shared
