pub mod Answer
pub mod FileDue
pub mod FileRun
pub mod Limits
pub mod Print
pub mod Reading
pub mod Serve
