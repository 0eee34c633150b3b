pub mod Popped
pub mod Queued
pub mod Room
