pub mod Columns
pub mod Told
pub mod Theorems
