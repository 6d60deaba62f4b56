pub mod Fit
pub mod Widening
