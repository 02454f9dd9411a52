pub mod OneRow
pub mod Changes
pub mod Scan
pub mod Filling
pub mod Stacking
pub mod Reaching
pub mod InOrder
