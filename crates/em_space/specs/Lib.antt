pub mod Free
pub mod Held
pub mod Inner
pub mod Ledger
pub mod Numbered
pub mod Queue
pub mod Rig
pub mod Seen
