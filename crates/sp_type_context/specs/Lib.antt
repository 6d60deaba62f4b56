pub mod Names
pub mod Places
pub mod Contexts
pub mod Typing
pub mod Rows
