pub mod Lines
pub mod Looks
