use Rattle.sp_law_rules.proofs.Twice.{come_twice}
use Rattle.sp_law_rules.proofs.names.names_come_twice.Goals as goal

pub returns : goal.returns
returns c = come_twice
