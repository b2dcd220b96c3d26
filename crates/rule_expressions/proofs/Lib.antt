pub mod Joining
pub mod Closing
pub mod Operators
pub mod Targets
pub mod Dispatch
pub mod Membership
pub mod WordsTelling
pub mod Minus
