pub mod Built
pub mod Finished
pub mod Laws
pub mod Rows
