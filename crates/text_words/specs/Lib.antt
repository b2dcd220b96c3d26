pub mod Sights
pub mod Passes
