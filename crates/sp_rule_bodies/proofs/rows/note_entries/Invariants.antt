use Rattle.std.proofs.Common.{◌≡◌, drop, true}
use Rattle.sp_rules.specs.Least.{checked}
use Rattle.sp_typed.specs.Exprs.{exprs}
use Rattle.sp_rule_bodies.specs.ExprTests.{entries_tests}
use Rattle.sp_rule_bodies.proofs.rows.note_entries.Given as goal

abbrev pub invariant-loop-e : goal.invariant-loop-e
invariant-loop-e l = checked l.least (entries_tests l.owner l.keyed l.key l.value (exprs (drop l.e-index l.parts))) ≡ checked l.fn.least (entries_tests l.owner true l.key l.value (exprs l.parts))
