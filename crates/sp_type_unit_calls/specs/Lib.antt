pub mod Calls
pub mod StmtCalls
pub mod PartCalls
pub mod HookCalling
pub mod Rows
pub mod inside
