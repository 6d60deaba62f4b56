use Rattle.sp_law_rules.proofs.Fine.{stmt_never}
use Rattle.sp_law_rules.proofs.ends.bodies_give_results.Goals as goal

pub returns : goal.returns
returns c = λ names globals turns call layout n body st e. stmt_never names globals turns call layout n body e st
