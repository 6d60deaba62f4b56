pub mod Constants
pub mod Lists
pub mod Declared
