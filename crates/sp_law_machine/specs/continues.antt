pub mod Laws
pub mod Windows
pub mod Rows
