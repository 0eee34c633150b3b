pub mod Calls
pub mod Cost
pub mod Count
pub mod Order
pub mod Shape
