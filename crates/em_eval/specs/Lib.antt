pub mod EvalDue
pub mod EvalMoves
pub mod EvalRun
pub mod EvalSize
pub mod Evaluation
