pub mod Built
pub mod Fuel
pub mod Meaning
pub mod Laws
pub mod Rows
