pub mod Sizes
pub mod Code
pub mod Bodies
pub mod Units
pub mod Rows
pub mod UnitRows
