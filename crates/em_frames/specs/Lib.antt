pub mod Device
pub mod Frames
pub mod Memory
pub mod Pool
pub mod Rack
