pub mod Header
pub mod Keeps
pub mod Logs
pub mod Standing
pub mod Choices
pub mod Late
pub mod MayRun
