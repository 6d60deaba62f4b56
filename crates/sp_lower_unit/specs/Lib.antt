pub mod Handed
pub mod Forms
pub mod Values
pub mod Rounds
pub mod Rows
