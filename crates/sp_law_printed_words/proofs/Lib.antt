pub mod Clean
pub mod Faultless
pub mod Fixed
pub mod Letters
pub mod Literal
pub mod Lines
mod Rows
pub mod Stands
pub mod Worth
pub mod Told
pub mod Modules
pub mod Trees
pub mod Following
pub mod Placed
