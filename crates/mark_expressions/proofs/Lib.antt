pub mod Inverting
pub mod Naming
pub mod Heading
pub mod Forming
pub mod Gathering
