pub mod Arms
pub mod Walks
pub mod Expressions
pub mod Heads
pub mod Statements
