pub mod Ready
pub mod Builders
pub mod Drains
