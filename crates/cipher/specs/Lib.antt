pub mod Sealed
pub mod Parts
