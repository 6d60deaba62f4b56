pub mod Loops
pub mod Falling
pub mod Heights
pub mod Laws
pub mod Rows
