pub mod Locals
pub mod Stored
pub mod Bodies
pub mod Units
pub mod Passes
pub mod Rows
pub mod Laws
