pub mod Sites
pub mod HookRows
pub mod Tests
pub mod Places
pub mod Rows
pub mod inside
