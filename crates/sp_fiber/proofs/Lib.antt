pub mod Least
pub mod Marks
pub mod Machines
pub mod Whole
pub mod Feeding
pub mod Starting
