pub mod Letters
pub mod Keys
pub mod Order
pub mod Chain
pub mod Chained
