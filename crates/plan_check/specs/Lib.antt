pub mod Refusals
pub mod Words
pub mod Reading
pub mod Places
pub mod Parts
pub mod Checks
pub mod Plans
pub mod Laws
