pub mod Plain
pub mod Scans
