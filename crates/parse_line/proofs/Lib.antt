pub mod Faults
pub mod Lines
