pub mod Content
pub mod Calls
pub mod Theorems
pub mod Examples
