pub mod Skips
