pub mod Queues
pub mod Ready
