pub mod Checked
pub mod Behind
pub mod Units
pub mod Earlier
pub mod Falls
pub mod Steps
pub mod Broken
pub mod KindsTyped
