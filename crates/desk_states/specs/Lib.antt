pub mod Open
pub mod Following
