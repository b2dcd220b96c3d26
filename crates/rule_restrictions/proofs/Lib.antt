pub mod Passing
pub mod Arguments
pub mod Controlling
pub mod ArmLabels
pub mod Ways
pub mod Cases
pub mod Bodies
