pub mod Paths
pub mod Lines
pub mod Ceilings
pub mod Kept
pub mod Fed
pub mod Moves
pub mod Laws
