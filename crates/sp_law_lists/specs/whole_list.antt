pub mod Types
pub mod Trees
pub mod Whole
pub mod Known
pub mod Rows
pub mod Laws
