pub mod Moves
pub mod Fibers
pub mod Standing
pub mod Rows
