pub mod Operands
pub mod Literals
pub mod Wholes
