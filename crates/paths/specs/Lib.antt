pub mod Paths
pub mod Choices
pub mod Written
