pub mod Events
pub mod Given
