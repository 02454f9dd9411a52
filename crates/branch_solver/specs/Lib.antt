pub mod Best
pub mod Given
pub mod Kept
pub mod Frames
pub mod Buffers
pub mod Nodes
pub mod Steps
pub mod Laws
