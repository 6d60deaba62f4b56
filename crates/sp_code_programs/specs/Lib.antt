pub mod exprs
pub mod units
pub mod programs
