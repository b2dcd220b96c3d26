pub mod Naming
pub mod Linking
pub mod WordsMaking
