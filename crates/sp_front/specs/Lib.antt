pub mod Asked
pub mod Imports
pub mod Lists
pub mod inside
