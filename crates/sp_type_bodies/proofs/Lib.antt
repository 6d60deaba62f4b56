pub mod Opened
pub mod Arms
