pub mod Walks
pub mod Chains
pub mod Fronts
pub mod Cases
pub mod Arguments
