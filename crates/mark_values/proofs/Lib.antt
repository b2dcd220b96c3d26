pub mod Carrying
pub mod Ruling
pub mod Settling
pub mod Reaching
