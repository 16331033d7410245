pub mod Sort
pub mod Sorted
pub mod Components
pub mod Closure
