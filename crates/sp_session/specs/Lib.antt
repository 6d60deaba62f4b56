pub mod Units
pub mod Session
pub mod Telling
pub mod Laws
pub mod Example
pub mod Rows
