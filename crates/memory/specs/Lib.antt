pub mod Stops
pub mod Supplies
pub mod Told
