pub mod Ext
pub mod Mapped
pub mod Searches
pub mod Reaching
pub mod Listing
pub mod Walks
pub mod Steps
