pub mod EitherForm
pub mod Literals
pub mod Powers
