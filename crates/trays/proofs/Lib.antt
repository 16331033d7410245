pub mod Faults
pub mod Answered
pub mod Theorems
