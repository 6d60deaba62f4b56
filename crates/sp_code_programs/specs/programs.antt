pub mod Routines
pub mod Programs
pub mod Currents
pub mod Units
pub mod Whole
pub mod Rows
pub mod WholeRows
