pub mod Lookups
pub mod State
pub mod Results
