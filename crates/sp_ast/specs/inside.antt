pub mod TreeCodes
