pub mod Tables
pub mod Kept
pub mod Nodes
pub mod Typed
pub mod Aligned
pub mod Laws
