pub mod States
pub mod Edits
pub mod Signing
