pub mod Sifting
pub mod Heaps
pub mod HeapRows
pub mod Stocks
