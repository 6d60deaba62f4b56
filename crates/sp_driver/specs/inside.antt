pub mod Fed
pub mod Ready
pub mod Listed
