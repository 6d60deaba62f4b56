pub mod finished_bodies
pub mod unit_told
pub mod finished_units
pub mod program_laid
pub mod whole_program
pub mod list_runs
