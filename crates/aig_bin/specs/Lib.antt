pub mod EitherForm
