pub mod Rings
pub mod Search
pub mod State
