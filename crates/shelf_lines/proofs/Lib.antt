pub mod Bytes
pub mod Stops
pub mod Windows
