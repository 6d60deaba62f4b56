pub mod Arms
pub mod Steps
