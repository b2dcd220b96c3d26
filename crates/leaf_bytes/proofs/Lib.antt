pub mod Letters
pub mod Same
pub mod Naming
