pub mod Least
pub mod Blocks
pub mod Smallest
pub mod Greedy
pub mod Rows
pub mod State
