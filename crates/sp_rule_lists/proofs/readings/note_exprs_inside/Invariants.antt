use Rattle.std.proofs.Common.{◌≡◌, drop}
use Rattle.sp_rules.specs.Least.{checked}
use Rattle.sp_typed.specs.Exprs.{exprs}
use Rattle.sp_rule_lists.specs.Fields.{exprs_inside}
use Rattle.sp_rule_lists.proofs.readings.note_exprs_inside.Given as goal

abbrev pub invariant-loop-e : goal.invariant-loop-e
invariant-loop-e g l = checked l.least (exprs_inside (g.F.Facts.known l.facts) l.owner (exprs (drop l.e-index l.parts))) ≡ checked l.fn.least (exprs_inside (g.F.Facts.known l.facts) l.owner (exprs l.parts))
