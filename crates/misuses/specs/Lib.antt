pub mod Misuses
