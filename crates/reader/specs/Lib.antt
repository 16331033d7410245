pub mod Lines
pub mod Passes
pub mod Hyperedges
