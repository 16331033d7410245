pub mod Agreement
pub mod Interface
pub mod Refusals
pub mod Calls
