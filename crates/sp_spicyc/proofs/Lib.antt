pub mod Askings
pub mod Causing
pub mod Reports
pub mod Single
pub mod Wholes
