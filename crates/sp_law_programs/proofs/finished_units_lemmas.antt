pub mod Same
pub mod SameUnits
pub mod Right
pub mod Hooks
pub mod RightFields
pub mod RightUnits
pub mod Meanings
