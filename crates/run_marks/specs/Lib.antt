pub mod History
pub mod Register
pub mod Text
