pub mod Told
pub mod Laws
pub mod Keeps
pub mod Rows
