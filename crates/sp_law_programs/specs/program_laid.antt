pub mod Fits
pub mod Places
pub mod Turning
pub mod Laws
pub mod Rows
