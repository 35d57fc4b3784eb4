pub mod Drawing
pub mod Climbing
pub mod Recording
pub mod Turning
