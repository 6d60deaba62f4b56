pub mod First
pub mod Next
pub mod Constructs
pub mod Fields
pub mod Unbuilt
pub mod Places
pub mod Rows
