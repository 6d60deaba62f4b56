pub mod keeps
pub mod continues
pub mod ends
