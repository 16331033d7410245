pub mod Parting
pub mod Searching
pub mod Gathering
pub mod Removed
pub mod Cuts
