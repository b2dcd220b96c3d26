pub mod Telling
pub mod Ways
