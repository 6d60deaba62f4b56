pub mod Alternatives
