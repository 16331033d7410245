pub mod Fits
pub mod Kept
pub mod Withdrawals
mod Repeats
pub mod Orders
pub mod Down
pub mod Upstream
