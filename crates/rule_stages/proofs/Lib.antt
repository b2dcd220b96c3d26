pub mod Staging
pub mod OnePassExprs
pub mod OnePassStmts
pub mod OnePassLines
