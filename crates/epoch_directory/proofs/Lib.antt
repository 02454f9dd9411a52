pub mod Lines
pub mod NextTables
pub mod LeastFault
pub mod Quorums
pub mod Keeping
pub mod Following
pub mod Endings
pub mod Addressed
