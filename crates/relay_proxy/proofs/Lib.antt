pub mod SetOf
pub mod PushLoop
pub mod Primaries
pub mod Sendable
pub mod Addressed
