pub mod Clipping
pub mod Calling
pub mod Scenes
