pub mod Replays
pub mod Standing
pub mod Rows
