pub mod Standing
pub mod Easing
pub mod Entering
pub mod Judging
pub mod Texts
