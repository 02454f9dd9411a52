pub mod Limits
pub mod Modes
pub mod Load
pub mod Kept
pub mod Faults
pub mod World
pub mod Gaps
