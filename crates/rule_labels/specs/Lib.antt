pub mod Marks
pub mod Repeating
pub mod Hops
pub mod Blocks
pub mod Keys
pub mod Numbers
pub mod Differ
