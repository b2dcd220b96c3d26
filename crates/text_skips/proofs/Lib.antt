pub mod Counts
pub mod Skipping
