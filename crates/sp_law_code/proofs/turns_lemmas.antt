pub mod Forward
pub mod Exprs
pub mod Stmts
pub mod Falls
pub mod Low
pub mod Programs
pub mod Kept
pub mod Units
