pub mod Noting
pub mod Counted
