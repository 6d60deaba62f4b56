pub mod Askings
pub mod Leasts
pub mod Loads
