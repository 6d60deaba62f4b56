pub mod Endings
pub mod Single
