pub mod Refusals
pub mod Calls
pub mod Agreement
pub mod Interface
