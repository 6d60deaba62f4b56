pub mod Tokens
pub mod Writing
