pub mod Asking
pub mod Files
pub mod Follow
pub mod Seen
