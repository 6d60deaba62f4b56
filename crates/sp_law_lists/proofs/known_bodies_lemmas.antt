pub mod Slots
pub mod Asked
pub mod Kept
pub mod Contexts
pub mod Stmts
pub mod Formed
