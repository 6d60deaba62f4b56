pub mod Openings
pub mod Attributes
pub mod Leaves
pub mod Fields
pub mod Containers
pub mod Units
pub mod Rows
