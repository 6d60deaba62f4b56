pub mod Fits
pub mod Meant
pub mod Laws
pub mod Rows
