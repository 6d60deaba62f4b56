pub mod Overlays
pub mod Filling
pub mod Settling
