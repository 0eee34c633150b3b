mod JobRows
pub mod OptionLemmas
pub mod RefusalLaws
