pub mod Seen
pub mod Passing
pub mod Places
pub mod Numbers
