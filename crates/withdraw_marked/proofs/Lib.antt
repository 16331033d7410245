pub mod Spared
pub mod Sifting
