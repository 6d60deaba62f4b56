pub mod Everywhere
pub mod EverywhereInStmts
