pub mod Shown
pub mod Theorems
