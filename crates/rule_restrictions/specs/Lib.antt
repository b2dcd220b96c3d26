pub mod Walks
pub mod Calls
pub mod Control
pub mod ArmParts
