pub mod Begun
pub mod Lists
pub mod Moves
pub mod Named
pub mod Opens
mod Rows
pub mod Tables
