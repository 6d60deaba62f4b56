pub mod Zeros
pub mod Placed
pub mod Routines
pub mod Begins
pub mod Laid
pub mod Enters
pub mod Turning
pub mod Counted
