pub mod Operating
pub mod Targeting
