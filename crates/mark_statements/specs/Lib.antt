pub mod Finding
pub mod Marks
