pub mod Slots
pub mod Decided
pub mod Trees
pub mod Rows
pub mod Laws
