pub mod Standings
pub mod LinePasses
pub mod Ties
