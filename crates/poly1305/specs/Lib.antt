pub mod Poly1305
pub mod Bounds
pub mod Limbs
pub mod State
