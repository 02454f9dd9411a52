pub mod Limits
pub mod Tables
pub mod Kept
pub mod Faults
