pub mod Noting
pub mod Steps
pub mod Falls
pub mod Blanks
pub mod Order
pub mod Written
