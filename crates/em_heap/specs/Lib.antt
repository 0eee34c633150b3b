pub mod Heap
pub mod Lending
pub mod State
pub mod Stock
