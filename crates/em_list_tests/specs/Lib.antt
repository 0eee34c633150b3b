pub mod Dealt
pub mod Ready
pub mod Room
