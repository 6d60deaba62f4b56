pub mod Agree
pub mod Framed
pub mod Methods
pub mod Exprs
pub mod Stmts
pub mod Calls
pub mod Units
