pub mod Closing
pub mod Pairs
