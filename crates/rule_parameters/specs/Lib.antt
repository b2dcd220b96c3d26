pub mod Listing
pub mod Framing
