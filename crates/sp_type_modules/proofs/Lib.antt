pub mod Joining
pub mod Paths
pub mod Steps
pub mod Told
