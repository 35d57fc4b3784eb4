pub mod Bridge
pub mod Extending
pub mod Reading
pub mod Turning
pub mod Siblings
