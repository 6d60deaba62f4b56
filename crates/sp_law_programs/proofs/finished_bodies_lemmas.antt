pub mod Agree
pub mod SameExprs
pub mod SameStmts
pub mod SameCalls
pub mod Right
pub mod RightExprs
pub mod RightStmts
pub mod RightCalls
