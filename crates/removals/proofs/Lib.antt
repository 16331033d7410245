pub mod Orders
pub mod Withdrawn
pub mod Calls
pub mod Live
pub mod Steps
pub mod Theorems
