pub mod OfSorts
pub mod OfTypes
pub mod Leaves
pub mod Forms
pub mod OfValues
pub mod Sound
