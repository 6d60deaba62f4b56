pub mod Joined
pub mod Loaded
pub mod Stored
pub mod Formed
pub mod Begun
pub mod Filled
