pub mod Rising
pub mod Order
pub mod Places
pub mod Stacks
pub mod Runs
pub mod Modules
