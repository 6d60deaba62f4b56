pub mod Characters
pub mod Fits
pub mod Rows
pub mod Utf8
