pub mod Entered
pub mod Runs
