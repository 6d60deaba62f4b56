pub mod Good
pub mod Fine
pub mod Given
pub mod Rows
pub mod Laws
