pub mod Ends
pub mod Writes
pub mod Trees
