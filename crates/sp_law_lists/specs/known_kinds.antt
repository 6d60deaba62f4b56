pub mod Made
pub mod Kept
pub mod Rows
pub mod Laws
