pub mod Full
pub mod Inside
pub mod Trees
pub mod Clear
pub mod Given
pub mod Stmts
pub mod Rows
pub mod Laws
