pub mod Scanning
pub mod Exprs
