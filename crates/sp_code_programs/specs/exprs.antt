pub mod Marked
pub mod Sizes
pub mod Code
