pub mod Orders
pub mod Removals
