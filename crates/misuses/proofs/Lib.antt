pub mod Misuses
pub mod Examples
