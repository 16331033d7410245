pub mod Unmarked
mod Turns
