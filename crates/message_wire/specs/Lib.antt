pub mod Framed
pub mod FrameWires
pub mod Frames
pub mod ListWires
pub mod Region
pub mod Room
pub mod Sent
