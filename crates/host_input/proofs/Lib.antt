pub mod Arriving
