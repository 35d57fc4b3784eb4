pub mod Failures
pub mod Opened
pub mod Path
