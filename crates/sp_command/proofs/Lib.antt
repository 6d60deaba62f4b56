pub mod PartPuts
pub mod Files
pub mod Between
