pub mod Texts
pub mod Pages
pub mod Forms
