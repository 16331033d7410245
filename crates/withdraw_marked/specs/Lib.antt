pub mod Sparing
pub mod Sifting
