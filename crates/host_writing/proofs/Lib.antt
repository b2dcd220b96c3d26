pub mod Integers
pub mod Writing
pub mod Room
