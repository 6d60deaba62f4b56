pub mod Ranking
pub mod Sorting
pub mod Bodies
pub mod Gathering
