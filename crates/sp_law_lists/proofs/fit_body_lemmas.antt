pub mod OfKinds
pub mod Straight
pub mod Sound
