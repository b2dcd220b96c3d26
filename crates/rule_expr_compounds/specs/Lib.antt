pub mod Operators
pub mod Targets
