pub mod Parts
pub mod Heads
