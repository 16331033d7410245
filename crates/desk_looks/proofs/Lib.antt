pub mod Marking
pub mod Shown
