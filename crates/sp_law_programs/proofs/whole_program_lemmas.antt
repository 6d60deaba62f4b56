pub mod Placed
pub mod Tables
pub mod Listed
pub mod Programs
pub mod Fitting
