mod AheadLemmas
pub mod BaseFits
pub mod BaseLaws
pub mod BaseReads
pub mod BaseTexts
pub mod LineLemmas
mod NumberLemmas
mod PairLemmas
pub mod ReadLaws
pub mod Steps
mod TextRows
