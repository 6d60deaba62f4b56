pub mod Types
pub mod Views
pub mod Levels
pub mod Integers
pub mod inside
