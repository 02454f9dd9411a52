pub mod Unlimited
pub mod Restart
pub mod Renumbered
pub mod Laws
pub mod Rows
