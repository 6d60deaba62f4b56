pub mod Views
pub mod Questions
pub mod Steps
pub mod Windows
pub mod Places
pub mod Marks
