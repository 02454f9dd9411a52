pub mod Rule
pub mod Move
pub mod Sound
pub mod Strong
pub mod Eventual
pub mod Runs
