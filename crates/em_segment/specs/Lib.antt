pub mod Answers
pub mod Belows
pub mod Finishes
pub mod Leaves
pub mod Stabs
