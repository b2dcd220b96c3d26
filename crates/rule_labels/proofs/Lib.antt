pub mod Marking
pub mod Skipping
pub mod Telling
pub mod Hopping
pub mod Differing
pub mod Keying
pub mod KeyTelling
pub mod Finding
