pub mod Zeros
pub mod Lookups
pub mod Forms
pub mod Many
pub mod Receivers
pub mod Puts
