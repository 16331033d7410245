mod Kept
pub mod Told
mod Examples
