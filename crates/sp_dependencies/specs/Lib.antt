pub mod Tries
pub mod TryLaws
pub mod Endless
