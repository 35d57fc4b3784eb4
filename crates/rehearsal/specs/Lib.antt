pub mod Keys
pub mod Numbers
pub mod Levels
pub mod Siblings
pub mod Changes
