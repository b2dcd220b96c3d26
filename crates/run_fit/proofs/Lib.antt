pub mod Plainly
pub mod Spans
pub mod Sums
pub mod Texts
pub mod Engine
