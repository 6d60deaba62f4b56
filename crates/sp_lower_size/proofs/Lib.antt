pub mod Falls
pub mod Choices
