pub mod Heights
pub mod Parsing
pub mod Trails
pub mod Places
pub mod Raising
pub mod Keeping
pub mod Verdicts
pub mod Grounds
