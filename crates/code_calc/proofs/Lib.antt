pub mod Leaves
pub mod Combining
pub mod Placing
pub mod Ranging
pub mod Loading
pub mod Joining
