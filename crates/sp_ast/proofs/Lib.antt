pub mod Highest
pub mod Rows
pub mod ByPlace
pub mod Growth
pub mod Several
