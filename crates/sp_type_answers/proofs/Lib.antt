pub mod One
pub mod Refused
