pub mod Open
pub mod Removed
pub mod Turns
