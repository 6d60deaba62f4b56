pub mod Asking
pub mod Missing
pub mod Following
pub mod Noting
pub mod Single
pub mod FirstNamed
mod Read
