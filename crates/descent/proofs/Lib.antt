pub mod Down
pub mod Rows
pub mod Beside
pub mod LastRow
