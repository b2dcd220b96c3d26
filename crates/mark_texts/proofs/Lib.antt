pub mod MarkWays
pub mod Counts
