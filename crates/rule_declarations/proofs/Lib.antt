pub mod FreeNames
pub mod Growing
pub mod VarLines
pub mod Starting
