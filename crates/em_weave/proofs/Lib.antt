pub mod Endings
pub mod Laws
pub mod Peeks
pub mod Queues
pub mod Weavings
mod WovenRows
