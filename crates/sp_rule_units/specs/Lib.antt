pub mod Faults
pub mod Limits
pub mod Bits
pub mod Filters
pub mod Attributes
pub mod Readings
pub mod Units
pub mod Rows
