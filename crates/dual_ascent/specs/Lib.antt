pub mod Columns
pub mod Stacks
pub mod Tallies
pub mod Kept
pub mod Short
pub mod Given
pub mod Change
pub mod Pairs
