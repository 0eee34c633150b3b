pub mod Bound
pub mod Promise
pub mod Statistics
