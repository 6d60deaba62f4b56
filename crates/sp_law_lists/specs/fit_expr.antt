pub mod Around
pub mod Sorts
pub mod Lists
pub mod Test
pub mod Constants
pub mod Passes
pub mod Rows
pub mod Laws
