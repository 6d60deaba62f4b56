pub mod Chains
pub mod Rings
pub mod Lent
pub mod inside
