pub mod Limits
pub mod Faults
pub mod Lines
pub mod Finds
