pub mod Fields
pub mod Links
pub mod Words
