pub mod SpecCodes
pub mod SpecFalls
pub mod PartCodes
pub mod PartFalls
pub mod SpecNodes
