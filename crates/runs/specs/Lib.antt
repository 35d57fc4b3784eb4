pub mod Moments
pub mod Rule
pub mod Consequences
pub mod Cases
