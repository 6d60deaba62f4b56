pub mod Keywords
pub mod Punctuation
pub mod Operators
pub mod Words
pub mod Methods
