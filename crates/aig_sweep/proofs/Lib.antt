mod Cuts
mod Discards
mod Sweepers
pub mod Awaits
pub mod Bits
pub mod Circuits
pub mod Heard
pub mod Lent
pub mod Lines
pub mod Nexts
pub mod Passes
pub mod Sends
pub mod Spreads
pub mod SweepRoom
pub mod Waiting
