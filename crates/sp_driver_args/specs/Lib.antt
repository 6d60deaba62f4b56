pub mod Words
pub mod Wants
pub mod Rows
