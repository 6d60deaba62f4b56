pub mod Makes
pub mod Laws
