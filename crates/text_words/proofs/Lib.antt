pub mod Looking
pub mod WordPasses
pub mod Ties
