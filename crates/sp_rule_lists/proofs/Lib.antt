pub mod Checked
pub mod Falls
pub mod SlotSteps
pub mod Everywhere
