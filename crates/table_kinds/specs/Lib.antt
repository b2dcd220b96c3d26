pub mod Kinds
pub mod Functions
