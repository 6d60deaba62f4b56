pub mod inside
pub mod Examples
