pub mod Finding
pub mod Ranking
