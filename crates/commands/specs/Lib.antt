pub mod Words
pub mod Commands
pub mod Inner
