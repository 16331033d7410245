pub mod Properties
pub mod Results
pub mod State
