pub mod State
pub mod Tables
pub mod NextLines
pub mod Step
pub mod Laws
