pub mod Refusals
pub mod Puts
pub mod Words
pub mod Files
pub mod Directories
