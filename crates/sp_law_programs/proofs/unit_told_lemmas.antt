pub mod Stops
pub mod Exact
pub mod Units
pub mod Fronts
pub mod Ended
pub mod Kept
