pub mod Lists
pub mod Leading
pub mod Called
