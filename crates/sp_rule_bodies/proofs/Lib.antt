pub mod Swept
pub mod Falls
pub mod Lasts
pub mod Cases
pub mod BodySteps
pub mod Broken
