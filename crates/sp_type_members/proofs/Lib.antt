pub mod Joining
pub mod Places
mod EndlessLaws
