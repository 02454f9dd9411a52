pub mod Tables
pub mod Sizes
pub mod Parts
pub mod Locals
pub mod Summing
pub mod Places
pub mod Sides
pub mod Engines
