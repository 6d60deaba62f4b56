pub mod Falls
pub mod SyntaxCodes
