pub mod Copies
mod Trays
mod Turns
