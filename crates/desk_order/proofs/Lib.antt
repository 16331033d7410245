pub mod Placing
pub mod Faults
