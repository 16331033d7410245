pub mod Lines
pub mod Records
