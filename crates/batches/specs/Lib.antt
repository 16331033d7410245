pub mod Batches
pub mod Runs
