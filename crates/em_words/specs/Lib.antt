pub mod Job
pub mod Options
