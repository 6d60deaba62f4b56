pub mod Literals
pub mod Around
pub mod Added
pub mod Changes
pub mod Joints
pub mod Many
pub mod Rows
pub mod inside
