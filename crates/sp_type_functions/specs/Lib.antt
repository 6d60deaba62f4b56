pub mod Functions
pub mod Events
pub mod Hooks
pub mod Rows
