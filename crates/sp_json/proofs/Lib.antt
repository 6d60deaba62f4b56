mod Rows
pub mod Pushes
pub mod Written
pub mod Texts
