pub mod Table
pub mod Procedures
