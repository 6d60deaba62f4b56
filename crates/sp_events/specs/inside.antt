pub mod Left
pub mod TreeCodes
pub mod TreeFalls
