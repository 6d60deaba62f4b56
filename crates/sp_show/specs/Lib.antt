pub mod Inside
pub mod Plans
