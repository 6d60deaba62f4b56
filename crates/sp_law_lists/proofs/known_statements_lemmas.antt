pub mod Stmts
pub mod Typing
pub mod Declared
