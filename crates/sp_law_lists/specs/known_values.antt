pub mod Values
pub mod Operators
pub mod Given
pub mod Laws
