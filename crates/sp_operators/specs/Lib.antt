pub mod Outcomes
pub mod Operands
pub mod Parts
pub mod Operators
