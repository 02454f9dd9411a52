pub mod Between
pub mod FirstRecords
pub mod Joined
pub mod Taking
