pub mod Literals
pub mod Added
pub mod Rows
