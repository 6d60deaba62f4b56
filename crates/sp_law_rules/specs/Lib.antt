pub mod Answers
pub mod Ends
pub mod Names
pub mod Conversions
pub mod ToldConversions
pub mod Places
pub mod Spans
