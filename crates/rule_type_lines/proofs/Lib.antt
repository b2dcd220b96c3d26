pub mod TypeScenes
pub mod Aliases
pub mod SimpleLines
pub mod SetTypes
pub mod TwoParts
pub mod ArrayTypes
pub mod RangeTypes
pub mod MadeLines
