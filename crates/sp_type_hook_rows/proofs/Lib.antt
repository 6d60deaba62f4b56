pub mod Numbers
pub mod UnitPaths
pub mod Steps
