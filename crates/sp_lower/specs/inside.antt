pub mod Laid
pub mod Units
pub mod Whole
