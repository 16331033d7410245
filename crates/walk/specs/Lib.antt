pub mod Walk
pub mod Passes
