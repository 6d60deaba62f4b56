pub mod Decorators
pub mod Parameters
pub mod inside
