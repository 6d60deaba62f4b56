pub mod Longest
pub mod Unique
