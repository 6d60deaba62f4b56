pub mod Codes
pub mod Sizes
pub mod Falls
pub mod Places
