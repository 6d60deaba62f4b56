pub mod Kinds
pub mod Stacks
pub mod Numbered
pub mod Emitted
pub mod Emission
pub mod Rows
pub mod Plans
pub mod inside
