pub mod Cuts
pub mod Numbers
pub mod Lines
pub mod Texts
pub mod Unique
pub mod Rows
