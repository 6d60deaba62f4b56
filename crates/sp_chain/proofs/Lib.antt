pub mod Sums
pub mod RingLemmas
pub mod ArenaLemmas
pub mod ViewLemmas
pub mod LentLemmas
