pub mod Refusals
pub mod Runs
pub mod Parameters
