pub mod Counting
pub mod Rule
pub mod Lawful
pub mod Parts
