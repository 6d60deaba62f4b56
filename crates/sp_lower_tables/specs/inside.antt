pub mod Conversions
pub mod Fields
