pub mod Ends
pub mod Storing
pub mod Acts
pub mod Bounds
pub mod Arguments
