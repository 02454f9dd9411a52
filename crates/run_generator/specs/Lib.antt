pub mod Header
pub mod Chosen
pub mod Told
pub mod Standing
