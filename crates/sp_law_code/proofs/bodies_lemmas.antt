pub mod Sizes
pub mod Runs
pub mod Loops
pub mod Changes
pub mod Stmts
pub mod Calls
pub mod Hooks
pub mod KeptStmts
