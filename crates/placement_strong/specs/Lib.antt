pub mod Variables
pub mod Rows
pub mod Programs
pub mod Placed
pub mod Laws
pub mod Examples
