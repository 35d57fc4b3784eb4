pub mod Seats
pub mod Standing
pub mod Reads
pub mod Answers
pub mod Prepares
pub mod Changes
pub mod States
