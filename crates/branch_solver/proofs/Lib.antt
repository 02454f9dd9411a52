pub mod Lower
pub mod Giving
pub mod Standing
pub mod Sizes
pub mod Ends
pub mod Stepping
pub mod Improving
pub mod Stacking
