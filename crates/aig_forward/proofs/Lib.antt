mod Joined
mod StepCalls
mod StepEnds
mod StepLines
mod StepPasses
mod StepRoom
mod StepStops
pub mod BitLists
pub mod PutLines
pub mod StimulusLines
pub mod WholeLines
