pub mod Blocks
pub mod Commutes
pub mod Lacking
pub mod Levels
pub mod Order
pub mod OrderLaws
