pub mod Opens
pub mod Tries
pub mod Endless
pub mod Rows
pub mod inside
