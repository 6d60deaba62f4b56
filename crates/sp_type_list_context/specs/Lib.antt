pub mod Contexts
pub mod Holds
