pub mod Matrices
pub mod Drawn
pub mod Ordered
pub mod Inner
