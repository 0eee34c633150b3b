pub mod BitList
pub mod Line
pub mod Lists
pub mod Outputs
pub mod Room
pub mod Step
pub mod StepPass
