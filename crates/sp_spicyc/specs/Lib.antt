pub mod Asked
pub mod Causes
pub mod Command
pub mod Files
pub mod Wants
pub mod Whole
pub mod Words
