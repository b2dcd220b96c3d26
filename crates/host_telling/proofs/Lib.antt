pub mod Telling
pub mod MarkTelling
