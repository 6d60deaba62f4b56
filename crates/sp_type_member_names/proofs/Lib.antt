pub mod Differing
pub mod Passing
pub mod Numbers
