pub mod Judging
pub mod Onward
pub mod Sendable
pub mod Addressed
pub mod Sizes
pub mod Records
pub mod Steps
pub mod Falling
