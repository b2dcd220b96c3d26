pub mod Ways
pub mod Leaves
pub mod Holders
pub mod Testing
pub mod Rows
