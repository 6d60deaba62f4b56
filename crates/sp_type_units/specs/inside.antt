pub mod Shown
pub mod Told
pub mod Joins
pub mod Insides
pub mod Finding
