pub mod Closed
pub mod ReadKinds
pub mod Values
pub mod Fields
pub mod Parts
pub mod Members
pub mod Units
