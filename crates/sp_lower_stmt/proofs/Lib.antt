pub mod Straight
pub mod Rounds
pub mod Choices
pub mod Tests
pub mod Sequels
