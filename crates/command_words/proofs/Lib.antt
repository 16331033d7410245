pub mod Values
pub mod Scans
