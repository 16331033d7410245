pub mod Content
pub mod Layout
pub mod WellFormed
pub mod Answers
pub mod Steps
pub mod Inner
