pub mod Descriptions
pub mod Pairs
pub mod Frames
pub mod Scene
pub mod Sides
pub mod Loops
