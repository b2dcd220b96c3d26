pub mod Reading
pub mod Meeting
pub mod Choosing
