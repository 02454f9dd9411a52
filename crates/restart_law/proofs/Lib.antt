pub mod Limited
pub mod Taken
pub mod Registers
pub mod Numbers
pub mod Moved
pub mod Stepping
pub mod Running
pub mod Rows
