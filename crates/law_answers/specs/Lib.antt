pub mod Verdicts
pub mod RunReports
pub mod MarkingReports
pub mod Written
pub mod Owners
pub mod Shown
