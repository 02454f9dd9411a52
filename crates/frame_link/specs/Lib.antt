pub mod DealtLinks
pub mod Deals
pub mod Frames
pub mod Memory
pub mod Region
pub mod Turns
