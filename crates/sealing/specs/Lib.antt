pub mod Aead
pub mod Work
pub mod Open
