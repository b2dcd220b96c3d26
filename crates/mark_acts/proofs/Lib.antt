pub mod Ending
pub mod Placing
pub mod Acting
pub mod Bounding
pub mod Shapes
pub mod Arguing
