pub mod Opening
pub mod OnBytes
