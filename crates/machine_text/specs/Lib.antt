pub mod Machines
pub mod Spelled
pub mod ReadMachines
pub mod Rows
pub mod Worked
