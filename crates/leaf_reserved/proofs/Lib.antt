pub mod Arms
pub mod Rows
pub mod Guesses
pub mod Places
