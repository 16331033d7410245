pub mod Placed
pub mod Holds
pub mod Members
pub mod Drawing
pub mod Among
pub mod Records
pub mod Together
pub mod Numbers
