pub mod Told
pub mod MarkTold
