pub mod Walks
pub mod Fields
pub mod Units
pub mod Kept
