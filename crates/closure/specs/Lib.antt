pub mod Pairs
pub mod State
