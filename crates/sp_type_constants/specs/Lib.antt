pub mod Known
pub mod Outcomes
pub mod Operations
pub mod Values
pub mod Places
pub mod Labels
pub mod Rows
pub mod Extents
