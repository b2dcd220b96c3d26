pub mod Nodes
pub mod Cells
pub mod Members
pub mod Bracket
pub mod Links
