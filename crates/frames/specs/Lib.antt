pub mod Frames
pub mod Put
pub mod Pairs
pub mod Reading
pub mod Faulty
pub mod Bytes
