pub mod Order
pub mod Ranges
pub mod Machine
pub mod RangeTests
pub mod Sums
pub mod Products
pub mod Division
