pub mod Leaves
pub mod Driving
pub mod Texts
