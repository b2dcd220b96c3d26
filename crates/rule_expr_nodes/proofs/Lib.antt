pub mod Making
pub mod CellsMaking
pub mod MembersMaking
pub mod Closing
pub mod Linking
