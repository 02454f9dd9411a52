pub mod Routes
pub mod State
pub mod Rule
