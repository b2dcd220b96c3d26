pub mod Open
pub mod FittingSheet
pub mod Sticking
pub mod Counters
pub mod Copies
