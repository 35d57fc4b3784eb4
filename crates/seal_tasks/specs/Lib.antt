pub mod Tasks
pub mod Runs
pub mod Clear
