pub mod Members
pub mod Changes
pub mod Keys
pub mod Invariant
pub mod Places
pub mod Climbing
