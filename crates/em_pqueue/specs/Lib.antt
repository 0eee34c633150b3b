pub mod Ascending
pub mod Calls
pub mod ExtQueue
pub mod Items
pub mod Parts
pub mod QueueLaws
pub mod Room
pub mod Steps
