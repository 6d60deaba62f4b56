pub mod Grammar
pub mod Sinks
pub mod Certificate
pub mod Test
pub mod Rows
pub mod Outcome
