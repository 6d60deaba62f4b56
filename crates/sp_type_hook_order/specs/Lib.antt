pub mod Order
pub mod Keys
pub mod Rows
pub mod inside
