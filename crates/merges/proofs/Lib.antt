pub mod Steps
pub mod Walks
pub mod Apart
pub mod Content
pub mod Calls
pub mod Theorems
