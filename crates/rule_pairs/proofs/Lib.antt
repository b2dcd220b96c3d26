pub mod PairParts
pub mod Resolving
