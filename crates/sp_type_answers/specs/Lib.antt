pub mod Settled
pub mod Lists
pub mod NameRules
pub mod Rules
pub mod Refusals
