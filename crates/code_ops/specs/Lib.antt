pub mod Operators
pub mod Functions
