pub mod FileOpens
pub mod MadeRuns
pub mod Origins
pub mod Summed
pub mod WholeTexts
