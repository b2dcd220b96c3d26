pub mod Storing
pub mod Ending
pub mod Stored
pub mod Moves
