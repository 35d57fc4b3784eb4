pub mod Nodes
pub mod Answers
