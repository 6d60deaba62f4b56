pub mod exprs_lemmas
pub mod bodies_lemmas
pub mod units_lemmas
pub mod turns_lemmas
