pub mod Emptying
pub mod Loops
pub mod Findings
pub mod Draining
