pub mod Digits
pub mod DecimalHex
pub mod WordKinds
pub mod Shapes
pub mod Ranges
pub mod Examples
