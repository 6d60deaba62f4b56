pub mod Making
pub mod Types
pub mod Values
pub mod Calls
pub mod Operations
pub mod Owners
pub mod Names
