pub mod Bodies
pub mod Passes
pub mod Test
pub mod Rows
pub mod Laws
