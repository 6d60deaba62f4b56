pub mod Answered
pub mod Least
pub mod Rows
pub mod Values
