pub mod Tree
pub mod TreeRows
pub mod TreeSizes
pub mod TreeView
pub mod inside
