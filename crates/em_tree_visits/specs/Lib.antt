pub mod Visits
pub mod Leavings
pub mod FirstVisits
