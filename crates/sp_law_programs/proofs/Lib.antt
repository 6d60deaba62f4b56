pub mod finished_bodies_lemmas
pub mod unit_told_lemmas
pub mod finished_units_lemmas
pub mod program_laid_lemmas
pub mod whole_program_lemmas
pub mod list_runs_lemmas
