pub mod Books
pub mod Keeping
pub mod Playing
pub mod Fresh
