pub mod Valued
pub mod Answers
pub mod Leaves
pub mod Agreement
pub mod Laws
pub mod Rows
pub mod TypedRows
pub mod inside
