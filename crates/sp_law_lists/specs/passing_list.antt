pub mod Built
pub mod Hooked
pub mod Rows
pub mod Stored
pub mod Laws
