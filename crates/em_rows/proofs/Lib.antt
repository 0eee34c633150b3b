mod CopyLaws
mod LineLaws
pub mod PairSorts
mod RowGiving
pub mod RowLaws
mod RowMoves
mod RowRows
mod RowSizes
mod SpellLaws
mod TakeLaws
mod TwoTexts
mod WriteLaws
