pub mod Operators
pub mod Growth
pub mod Lists
pub mod Members
pub mod Frames
pub mod Kept
