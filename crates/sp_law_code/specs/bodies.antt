pub mod Parts
pub mod Fits
pub mod Laws
pub mod Keeps
pub mod Rows
