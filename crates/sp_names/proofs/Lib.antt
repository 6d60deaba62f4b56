pub mod Noting
pub mod Lists
pub mod Further
pub mod Bits
pub mod InnerRows
pub mod Lookups
pub mod Behind
pub mod TypesOf
