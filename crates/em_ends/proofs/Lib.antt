pub mod EndLaws
pub mod Opening
pub mod Printing
mod ReportRows
