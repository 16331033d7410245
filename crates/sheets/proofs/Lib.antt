pub mod Sheets
pub mod More
pub mod Desk
