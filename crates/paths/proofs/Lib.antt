pub mod Values
pub mod Choosing
pub mod Lightest
pub mod Numbers
pub mod Writing
pub mod Answers
pub mod Theorems
