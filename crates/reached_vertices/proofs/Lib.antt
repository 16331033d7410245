pub mod Walks
pub mod Seen
pub mod Theorems
