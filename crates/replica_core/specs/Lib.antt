pub mod Keeping
pub mod Answering
pub mod Verdict
pub mod Rule
pub mod Preparing
pub mod Taking
pub mod Rising
