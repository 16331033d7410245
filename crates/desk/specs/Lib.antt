pub mod States
pub mod Desk
pub mod Releases
pub mod Orders
pub mod Calls
