pub mod FieldTables
pub mod inside
