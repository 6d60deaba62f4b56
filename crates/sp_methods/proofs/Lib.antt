pub mod Found
pub mod Texts
pub mod KindsKept
mod Rows
