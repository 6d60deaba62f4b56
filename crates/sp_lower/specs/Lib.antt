pub mod Literals
pub mod inside
pub mod Rows
