pub mod Asked
pub mod Ended
pub mod Opens
pub mod Outcome
pub mod Report
pub mod RunStop
pub mod Status
pub mod Stop
