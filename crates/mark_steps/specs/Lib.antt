pub mod Ends
pub mod Stands
pub mod Turns
