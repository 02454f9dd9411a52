pub mod Replays
pub mod Steady
pub mod Standing
