pub mod Pieces
pub mod Locals
pub mod Steps
pub mod Means
pub mod Units
pub mod Rows
