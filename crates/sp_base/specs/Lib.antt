pub mod Input
pub mod Kinds
pub mod Places
