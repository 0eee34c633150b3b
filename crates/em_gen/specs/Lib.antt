pub mod Draws
pub mod Texts
pub mod Shelf
pub mod Steps
pub mod Tally
pub mod TallyLaws
