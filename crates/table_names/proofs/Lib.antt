pub mod Spelled
pub mod Keying
pub mod Names
pub mod Ordering
pub mod Chained
