pub mod Sort
pub mod Texts
pub mod Removals
pub mod Trays
pub mod Refusals
pub mod NumbersSteps
pub mod Numbers
pub mod Paths
