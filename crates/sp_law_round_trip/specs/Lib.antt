pub mod Bare
pub mod Kept
pub mod ReadAs
pub mod Told
