pub mod Settling
pub mod Carrying
