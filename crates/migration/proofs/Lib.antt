pub mod Growth
pub mod Runs
pub mod Switches
pub mod Outs
pub mod Steps
