pub mod Known
pub mod Values
pub mod ExprTests
pub mod Ends
pub mod StmtTests
pub mod Sweeps
pub mod Rows
