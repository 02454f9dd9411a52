pub mod IntSums
pub mod RowSums
pub mod Risings
pub mod Values
pub mod Holding
