pub mod Those
pub mod Digits
pub mod Counts
pub mod Signed
pub mod Operators
pub mod Base
pub mod Ends
