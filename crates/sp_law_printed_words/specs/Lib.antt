pub mod Sound
pub mod Read
pub mod Told
pub mod Modules
pub mod Trees
pub mod Formed
