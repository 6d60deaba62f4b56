pub mod Fields
pub mod Items
pub mod UnitRows
pub mod Rows
pub mod inside
