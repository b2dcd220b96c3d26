pub mod Laws
pub mod TwoSided
pub mod OneSided
pub mod Tables
