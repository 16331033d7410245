pub mod Passed
pub mod Back
pub mod Going
pub mod Found
