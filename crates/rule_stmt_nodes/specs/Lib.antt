pub mod Nodes
pub mod Handlers
pub mod BaseNodes
pub mod Calls
