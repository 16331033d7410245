pub mod Lines
pub mod Said
pub mod Theorems
pub mod Examples
