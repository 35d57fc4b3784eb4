pub mod Book
pub mod Play
pub mod Answers
