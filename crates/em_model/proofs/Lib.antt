pub mod AnswerLaws
pub mod Ascending
pub mod BaseLaws
pub mod LiveLaws
pub mod MapLaws
pub mod PairLaws
pub mod QueueLaws
pub mod Ordered
mod Rows
pub mod StabLaws
pub mod SyncLaws
