pub mod Field
pub mod Blocks
pub mod Laws
