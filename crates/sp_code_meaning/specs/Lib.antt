pub mod Layouts
pub mod Exprs
pub mod Places
pub mod Stmts
pub mod Calls
pub mod Units
