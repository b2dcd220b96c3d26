pub mod Making
pub mod Following
pub mod BaseMaking
pub mod Calling
