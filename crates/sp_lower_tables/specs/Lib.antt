pub mod Numbers
pub mod inside
pub mod Rows
