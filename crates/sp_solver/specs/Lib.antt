pub mod Told
pub mod Rounds
pub mod Rows
