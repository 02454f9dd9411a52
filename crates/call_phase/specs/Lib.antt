pub mod Counting
pub mod Best
pub mod Requests
