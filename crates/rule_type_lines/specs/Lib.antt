pub mod TypeLines
pub mod Simple
pub mod Ranges
