pub mod Asked
pub mod Causes
pub mod Held
pub mod Moved
pub mod Stored
pub mod inside
