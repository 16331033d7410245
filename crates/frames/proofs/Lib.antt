pub mod Laws
pub mod Bytes
pub mod Lines
pub mod Text
pub mod Document
pub mod Parse
