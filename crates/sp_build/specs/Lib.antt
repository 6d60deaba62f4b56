pub mod Rules
pub mod Tokens
pub mod Items
pub mod Building
pub mod Progress
pub mod Starting
pub mod Stacks
pub mod inside
