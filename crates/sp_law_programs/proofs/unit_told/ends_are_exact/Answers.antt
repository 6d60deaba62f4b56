use Rattle.sp_law_programs.proofs.unit_told_lemmas.Exact.{ends_are_exact}
use Rattle.sp_law_programs.proofs.unit_told.ends_are_exact.Goals as goal

pub returns : goal.returns
returns c = ends_are_exact
