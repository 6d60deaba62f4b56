mod ActionNumbers
mod Numbers
pub mod OwnWords
pub mod Recursion
pub mod Sentences
pub mod Spans
pub mod Starting
