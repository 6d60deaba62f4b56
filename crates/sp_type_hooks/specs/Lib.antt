pub mod Fields
pub mod Hooks
pub mod Rows
pub mod inside
