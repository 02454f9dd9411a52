pub mod Sums
pub mod Rows
pub mod Contents
pub mod Program
pub mod Faults
