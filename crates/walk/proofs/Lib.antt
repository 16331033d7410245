pub mod FirstPlaces
pub mod Rows
pub mod Entered
pub mod Listing
pub mod Others
pub mod Walked
pub mod Sums
pub mod Examples
