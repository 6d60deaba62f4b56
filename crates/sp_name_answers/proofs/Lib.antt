pub mod Opens
pub mod Chains
pub mod Checks
