pub mod Budget
pub mod Heights
pub mod Falls
pub mod Windows
pub mod Ends
