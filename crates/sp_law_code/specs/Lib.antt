pub mod exprs
pub mod bodies
pub mod units
pub mod turns
