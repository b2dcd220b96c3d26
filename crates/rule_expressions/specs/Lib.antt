pub mod Walks
pub mod Members
pub mod MinusForm
pub mod Sides
