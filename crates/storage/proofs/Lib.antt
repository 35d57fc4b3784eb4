pub mod Content
pub mod Answered
pub mod Changing
