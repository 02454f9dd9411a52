pub mod Posts
pub mod Versions
pub mod Sent
pub mod Tags
