pub mod Widened
pub mod Rows
pub mod Laws
