pub mod Calls
pub mod Lends
pub mod Nodes
pub mod Slots
pub mod Stored
