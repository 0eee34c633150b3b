pub mod Beside
pub mod Popped
mod PoppedRows
pub mod Queued
pub mod Room
