pub mod Split
pub mod Aliases
pub mod Functions
pub mod Lists
pub mod Bodies
pub mod Orders
