pub mod Shapes
pub mod Nodes
