pub mod Tops
pub mod Innermost
