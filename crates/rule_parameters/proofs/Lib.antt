pub mod Parts
pub mod Lists
pub mod Frames
pub mod Openings
