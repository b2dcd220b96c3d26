pub mod Judging
pub mod Whole
pub mod Answers
pub mod Entering
pub mod Forms
