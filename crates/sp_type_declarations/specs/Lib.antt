pub mod Aliases
pub mod Bitfields
pub mod Conversions
pub mod Rows
pub mod ConversionRows
pub mod FunctionsAndOrders
