mod Effects
pub mod Parts
mod Sheets
