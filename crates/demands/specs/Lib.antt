pub mod Sort
pub mod Texts
pub mod Removals
pub mod Trays
pub mod Numbers
pub mod Paths
