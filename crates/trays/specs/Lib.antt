pub mod Trays
pub mod Outcomes
