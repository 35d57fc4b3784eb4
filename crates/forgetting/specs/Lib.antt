pub mod Secret
pub mod Tree
pub mod Change
pub mod Lawful
pub mod History
pub mod Cases
pub mod Climb
