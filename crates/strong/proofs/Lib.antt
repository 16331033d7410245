pub mod Shared
pub mod Inside
pub mod Latest
pub mod Ext
