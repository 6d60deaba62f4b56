pub mod States
pub mod Scopes
pub mod Reads
pub mod Values
pub mod Types
pub mod Telling
