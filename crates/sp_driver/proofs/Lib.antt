pub mod Askings
pub mod Causing
pub mod Puts
pub mod ReadModules
pub mod Readying
pub mod Runs
pub mod Says
pub mod Wanting
pub mod Wholes
pub mod Passing
mod One
