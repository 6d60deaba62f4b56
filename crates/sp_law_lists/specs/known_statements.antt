pub mod Ready
pub mod Built
pub mod Rows
pub mod Declared
pub mod Laws
