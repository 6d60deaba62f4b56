pub mod Laid
pub mod Fronts
pub mod Lawful
pub mod Endings
pub mod Tellings
pub mod Meanings
pub mod Stands
pub mod Example
