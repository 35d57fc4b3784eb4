pub mod Coded
pub mod Nodes
pub mod Turns
pub mod Outcome
