pub mod State
pub mod Names
pub mod Lines
pub mod Vars
